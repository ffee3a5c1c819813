-- What is proved of the definitions of specs/ and used by the proofs of the functions, in the order in which one leans on the other:
--     Spelling   bytes as hexadecimal digits
--     Lengths    how long an answer is, by its line
--     Unique     one outcome for the public call
pub mod Spelling
pub mod Lengths
pub mod Unique
