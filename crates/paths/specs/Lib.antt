-- Document 02, order 2, as definitions:
--     Paths      two cubic paths, one picture: of one level, and of whole builds
-- What is proved of these is in proofs/.
pub mod Paths
