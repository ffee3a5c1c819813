-- What is proved of the definitions, from the general to the special:
--     Laid       a record that a frame of three planes takes: its planes' layouts aren't refused, and its parts' starts are small
--     Rows       a row of a part, in the frame
--     Prepared   a call that isn't refused: each plane can be built in its part
--     Joined     a part built, and the three, one after the other
--     Orders     three calls of `build_plane`, in any order, leave what `build_frame` leaves; a refusal changes nothing
--     Unique     no second outcome meets a public call's contract
-- The folders hold a proof for each function.
pub mod Laid
pub mod Rows
pub mod Prepared
pub mod Joined
pub mod Orders
pub mod Unique
