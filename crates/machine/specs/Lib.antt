-- Document 01, as the change requests of document 02 amend it, as definitions, in its order. Contracts cite them; the types are in src/.
-- Bits as the manual numbers them, runs of writes, the pair's lookup
pub mod Bits
pub mod Lists
-- The machine's numbers
pub mod Numbers
pub mod Key
-- Numbers that come back, and their order (the table itself is below: it cites the sections between)
pub mod Answers
-- Real to absolute
pub mod Prefixing
-- Who may touch what
pub mod Protection
-- Key instructions
pub mod KeyInstructions
-- The table of answers, and one request with all that it leaves
pub mod Table
pub mod Step
pub mod Pair
-- The channel (02, W4)
pub mod Channel
-- A request of a list as a turn
pub mod Turns
-- Conditions 1 and 2
pub mod Conditions
-- Table of small facts, and the examples of document 02
pub mod SmallFacts
