-- The lines of the program `longhand`, as definitions. In the order to read them:
--     Fields     a line into fields, and the settings that they are
--     Hex        bytes as hexadecimal digits
--     Longhand   the line that the program prints for a line
-- What is proved of these is in proofs/.
pub mod Fields
pub mod Hex
pub mod Longhand
