-- What is proved of the definitions, from the general to the special:
--     Prepared   a build that isn't refused: what its stages need is there; a later level, in its way
--     Parts      a build keeps what each of its stages keeps, for any relation of two canvases
--     Whole      a build, whole: what the refusals leave, level 0's rows and planes, and its stages one after the other
--     Built      a build that isn't refused reads and stores in frame and spill alone
--     Enough     the spill need covers every store of a build
--     Calls      the contract of `build_plane`
-- The folders hold a proof for each function.
pub mod Prepared
pub mod Parts
pub mod Whole
pub mod Built
pub mod Enough
pub mod Calls
