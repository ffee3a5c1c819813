-- What is proved of the definitions of specs/ and used by the proofs of the functions, here and in the crates above, in the order in which one leans on the other:
--     Buffer     a line's buffer by its text
--     Lines      text put together, digits
--     Parted     an input into lines
--     Unique     one outcome for each public call
pub mod Buffer
pub mod Lines
pub mod Parted
pub mod Unique
