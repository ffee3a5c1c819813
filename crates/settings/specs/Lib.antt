-- Document 01, "Settings and sizes", "Numbers a call can give" and "Words read and compared", as definitions. In the order to read them:
--     Limits     its limits, each named once
--     Numbers    integers, bits and rows of refusals
--     Sizes      reducing and levels
--     Check      the settings check, accepted records, super height and width
--     Inner      inner: a record whose levels were just counted
--     Word       the word that a record packs to
--     Reading    which build a word names, and comparing two words
--     Answers    the number and value of each call, and of each answer that is an enum
-- What is proved of these is in proofs/.
pub mod Limits
pub mod Numbers
pub mod Sizes
pub mod Check
pub mod Inner
pub mod Word
pub mod Reading
pub mod Answers
