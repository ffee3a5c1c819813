-- What is proved of the definitions, in the order in which one leans on the other:
--     Places     where a level's numbers stand; the view of what is made; they are filled in from the front
--     Exact      the test is exact: what passes is what making gives for its view, and what is made passes
--     Afresh     document 02 about the calls: changing is making afresh
--     Unique     one outcome of a call that the crate keeps to itself
-- The folders hold a proof for each function.
pub mod Places
pub mod Exact
pub mod Afresh
pub mod Unique
