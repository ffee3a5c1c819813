-- What is proved of the definitions, from the general to the special:
--     Tests       orders and tests
--     Tables      rows made by a rule
--     Filling     a loop that writes out[i] = f i
--     Integers    differences among the integers, held to 0..255
--     Kernels     the Wiener kernel is H.264's; the bicubic one document 01's; the generic cubic's other columns are by the cubic's weights; which rows a filter reads
--     Lengths     a row has as many bytes as it is asked for
--     Bytes       bytes in give bytes out
--     Chosen      settings known by their bits
--     Pairs       a row of pairs halved
--     Places      what each half sample takes
--     ByHand      document 01's examples, computed
-- The folders hold a proof for each function.
pub mod Tests
pub mod Tables
pub mod Filling
pub mod Integers
pub mod Kernels
pub mod Lengths
pub mod Bytes
pub mod Chosen
pub mod Pairs
pub mod Places
pub mod ByHand
