-- Document 01, "Settings and sizes" and "Numbers a call can give", for a plane of a frame, as definitions. In the order to read them:
--     Storing    a run stored in a list of bytes, steps in order, and where a part of a slice lies
--     Layout     a plane's levels, and where they lie
--     Margins    which levels are fused, and the margins of those that aren't
--     Refusals   the numbers that a layout and a build by it are refused with
--     Fitting    inner: a layout that passed its tests
--     Room       inner: what no offset exceeds, and what a build is lent
--     Answers    what a call tells of a layout
-- What is proved of these is in proofs/.
pub mod Storing
pub mod Layout
pub mod Margins
pub mod Refusals
pub mod Fitting
pub mod Room
pub mod Answers
