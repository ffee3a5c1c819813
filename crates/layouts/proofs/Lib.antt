-- What is proved of the definitions, from the general to the special:
--     Choices    what a choice by a test gives
--     Loops      a run stored inside a list, rows that are a pitch apart, loops over them
--     Layouts    a layout that isn't refused: its numbers are small, its levels follow each other, a row lies in its level
--     Stored     levels that are stored: none is smaller than 2 by 2, which are fused, what the spill holds
--     Known      an answer is known by its number and value
-- The folders hold a proof for each function.
pub mod Choices
pub mod Loops
pub mod Layouts
pub mod Stored
pub mod Known
