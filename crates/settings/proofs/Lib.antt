-- What is proved of the definitions of specs/ and used by the proofs of the functions, in the order in which one leans on the other:
--     Tests      `&&`, `||`, `not`, a choice by a test, and tests that contradict each other
--     Integers   an i32 by its bits
--     Refusals   a row of refusals that gives none
--     Levels     reducing once more, levels of a size
--     Heights    sums of reduced heights, and that they fit
--     Fields     the fields of a record fit i32
--     Known      answers by their numbers
--     Accepted   what acceptance says, and that it holds exactly of what the check returns
--     Words      a packed word's fields, and records with one word
--     Told       demand 3 as far as records go
--     Pasting    values put into a list
--     ByHand     document 01's table, computed
--     Outcome    what a call promises, one outcome, and the law behind it
--     Unique     one outcome for each public call
pub mod Tests
pub mod Integers
pub mod Refusals
pub mod Levels
pub mod Heights
pub mod Fields
pub mod Known
pub mod Accepted
pub mod Words
pub mod Told
pub mod Pasting
pub mod ByHand
pub mod Outcome
pub mod Unique
