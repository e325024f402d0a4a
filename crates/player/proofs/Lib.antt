-- The laws behind the proofs of the player.
-- Lines: texts in a list of bytes, decimal numbers, the lines put together
pub mod Texts
pub mod Decimal
pub mod Lines
-- One record: a request, what is no request, the tests before
pub mod Requests
pub mod Asides
pub mod Records
-- Record after record
pub mod Playing
-- The run of a recording, and that the routines play it
pub mod Judged
pub mod Runs
pub mod Sentences
pub mod FiveNumbers
pub mod Parts
pub mod Stopping
pub mod Pieces
-- What playing keeps, and what it keeps to
pub mod Kept
-- The case that 02 gives
pub mod GivenCase
-- A run, computed
pub mod Rows
-- A case in two pieces
pub mod TwoPieces
