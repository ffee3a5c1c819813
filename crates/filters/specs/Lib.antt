-- Document 01's kernels and rows, as definitions. In the order to read them:
--     Row       rows made by a rule at each place; means; a rule of six taps
--     Halve     the halving filters: weights, edges, a row from six rows, a row of pairs halved
--     Refine    the half-pel kernels, and which place takes what
--     H264      the half sample of ITU-T H.264 over the integers
--     Inner     inner: what the code goes by on its way, and document 01 doesn't have
-- What is proved of these is in proofs/.
pub mod Row
pub mod Halve
pub mod Refine
pub mod H264
pub mod Inner
