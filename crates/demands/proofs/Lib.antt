-- What is proved of the definitions, from the general to the special:
--     Before     nothing that is computed depends on what lies before the canvas or a row
--     ByHand     document 01's examples, computed
--     Unique     no second outcome meets a public call's contract
--     Same       settings that don't matter leave no trace
--     Alike      words that prepare alike leave equal bytes
--     Kept       one byte of the canvas through the stages of a build
--     Witness    a plane by which two settings of a filter that isn't told are known apart
--     Demanded   demand 3 over the definitions, byte for byte
--     Demand     demand 3, and comparing words, about the calls
pub mod Before
pub mod ByHand
pub mod Unique
pub mod Same
pub mod Alike
pub mod Kept
pub mod Witness
pub mod Demanded
pub mod Demand
