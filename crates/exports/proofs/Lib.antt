-- What is proved of the definitions of specs/ and used by the proofs of the functions:
--     Spelled    what reading a longhand record leaves in its slices
--     Changed    what changing a layout in its own slice leaves
--     Unique     one outcome for each call
pub mod Spelled
pub mod Changed
pub mod Unique
