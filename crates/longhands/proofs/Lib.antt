-- What is proved of the definitions of specs/ and used by the proofs of the functions, in the order in which one leans on the other:
--     Known      the answer of reading, by its number
--     Bytes      numbers as bytes
--     Bodies     the body of kind 1 and its record, both ways
--     Longhands  longhand records: what reading comes to, and what writing leaves
--     Encodings  a record survives, has one encoding, and ends where its length says
--     ByHand     a longhand record, computed
--     Roundtrip  document 02 about the calls: what is written is read, and one record has one encoding
--     Unique     one outcome for each public call
pub mod Known
pub mod Bytes
pub mod Bodies
pub mod Longhands
pub mod Encodings
pub mod ByHand
pub mod Roundtrip
pub mod Unique
