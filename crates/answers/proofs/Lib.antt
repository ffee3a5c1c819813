-- What is proved of the definitions of specs/ and used by the proofs of the functions:
--     Putting    an answer put at the front of a slice
--     Telling    what a call tells, by the answer of the call that it makes
--     Records    numbers that are no record's are refused by 6; a record's numbers are that record's
--     Unique     one outcome for each public call
pub mod Putting
pub mod Telling
pub mod Records
pub mod Unique
