-- The records of a recording (02, W1).
pub mod Trace
pub mod Written
