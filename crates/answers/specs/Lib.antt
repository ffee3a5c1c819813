-- What the library's calls take and tell, as definitions. In the order to read them:
--     Fields     the numbers of settings, of a record, of what a word tells, of a level's plane, of needs, and of the parts of a frame
--     Lent       the number of a call, and what it leaves in the slice that is lent for its answer
-- What is proved of these is in proofs/.
pub mod Fields
pub mod Lent
