-- What is proved of the definitions, from the general to the special:
--     Runs       reading and storing in a frame and its spill; loops over frame, spill and scratch
--     Lines      one row of a later level before it is halved
--     Halves     a row of it halved in its place, and a row of the fused cubic
--     Refined    a row stored in the list that it is read of; the planes of level 0
--     Spreads    level 1 from the source plane: its rows in a frame and its spill
--     Related    rows byte by byte in a relation of bytes
--     Stages     one walk through the stages, for any relation of two canvases
--     Swaps      stores that can be made in either order, and loops that can be parted
--     AtOnce     the planes at half places in one pass
--     Placed     stages that have room in a frame and its spill
--     Inside     stages that stay inside the frame don't see what follows it
-- The folders hold a proof for each function.
pub mod Runs
pub mod Lines
pub mod Halves
pub mod Refined
pub mod Spreads
pub mod Related
pub mod Stages
pub mod Swaps
pub mod AtOnce
pub mod Placed
pub mod Inside
