-- The player of recordings (02, W1): the lines as bytes, the run of a recording, what the routines leave of a recording in pieces, and the claim
-- that they play the run.
pub mod Text
pub mod Run
pub mod Play
pub mod Parts
