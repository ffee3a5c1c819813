-- Document 02, order 3, all three planes of a frame, as definitions. In the order to read them:
--     Parts      the planes' layouts, what a frame of three is refused for, where its parts lie, and a row of one
--     Build      what three builds in three parts leave, and the number and value of the call
--     Framed     inner: a record that passed the tests of such a frame
-- What is proved of these is in proofs/.
pub mod Parts
pub mod Build
pub mod Framed
