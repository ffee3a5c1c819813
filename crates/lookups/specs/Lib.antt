-- Document 02, order 5, what is asked of a frame by a stored layout, as definitions. In the order to read them:
--     Refusals   the numbers that such a call refuses with
--     Answers    the number and value of these calls, and of each answer
-- What is proved of these is in proofs/.
pub mod Refusals
pub mod Answers
