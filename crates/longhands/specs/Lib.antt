-- Document 02's longhand record, as definitions. In the order to read them:
--     LittleEndian  numbers as bytes
--     Kind1         the body of a longhand record of kind 1
--     Longhand      the longhand record: its frame, and the number and value of reading and writing
-- What is proved of these is in proofs/.
pub mod LittleEndian
pub mod Kind1
pub mod Longhand
