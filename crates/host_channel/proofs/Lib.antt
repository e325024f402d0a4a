-- Laws of the bytes of a progress, and of calls.
pub mod ProgressBytes
pub mod Calls
pub mod ReadBack
pub mod Rows
