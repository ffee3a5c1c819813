-- What is proved of the definitions of specs/ and used by the proofs of the functions:
--     Printing   text after text in a lent slice, line after line
--     Unique     one outcome for the public call that has a contract
pub mod Printing
pub mod Unique
