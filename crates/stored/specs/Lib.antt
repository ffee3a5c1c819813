-- Document 02, order 5, the stored layout, as definitions. In the order to read them:
--     Layout     what making gives, and which numbers are the layout that their record gives
--     Refusals   the number of a stored layout that is handed in
--     Answers    the number and value of making and changing
--     Inner      inner: the test, level by level
--     Passed     inner: numbers that passed it
-- What is proved of these is in proofs/.
pub mod Layout
pub mod Refusals
pub mod Answers
pub mod Inner
pub mod Passed
