-- Demand 3, as definitions:
--     Demands    demand 3, byte for byte, as types
-- What is proved of these is in proofs/.
pub mod Demands
