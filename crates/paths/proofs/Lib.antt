-- What is proved of the two cubic paths, from the general to the special:
--     Equation   the fused cubic is the generic one with the rows' margins zeroed
--     Picture    order 2's sentences, of one level: about the definitions, and about the two functions
--     Builds     a full build with the fused path on and off, where margins are zeros
--     Site       the answer to a site: when whole builds leave one frame; about the calls too
--     Differ     where whole builds differ, computed
pub mod Equation
pub mod Picture
pub mod Builds
pub mod Site
pub mod Differ
