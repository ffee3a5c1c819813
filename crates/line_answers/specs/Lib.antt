-- What the programs print, as a definition:
--     Output     the output of a whole input
-- What is proved of it is in proofs/.
pub mod Output
