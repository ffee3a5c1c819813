-- The calls for programs in C and Rust, as definitions:
--     Calls      the number and what is lent, after each call
-- What is proved of these is in proofs/.
pub mod Calls
