-- The laws of calls.
pub mod Writing
pub mod Calls
