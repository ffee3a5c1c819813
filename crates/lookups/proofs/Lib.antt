-- What is proved of the definitions:
--     Numbers    the numbers of a call that takes a stored layout, and those of its view
-- The folders hold a proof for each function.
pub mod Numbers
