-- The programs' lines, as definitions. In the order to read them:
--     Limits     how much input the programs take, and how much they print
--     Text       document 01, "Words read and compared": the line that the program `words` prints for a line
--     Parting    an input into lines
-- What is proved of these is in proofs/.
pub mod Limits
pub mod Text
pub mod Parting
