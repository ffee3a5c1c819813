-- Document 01, "How a plane is built", whole, as definitions. In the order to read them:
--     Build      the whole build, and its number and value
-- What is proved of these is in proofs/.
pub mod Build
