-- Document 01, "How a plane is built", stage by stage, as definitions. In the order to read them:
--     Canvas     a frame and its spill as one list, and what is read in it
--     Halving    a later level, row by row: from a stored level, fused, and from the source plane
--     Refining   the planes of level 0 between its places
--     Room       inner: what the inner calls need of the slices that they are lent
-- What is proved of these is in proofs/.
pub mod Canvas
pub mod Halving
pub mod Refining
pub mod Room
