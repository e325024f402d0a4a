-- Laws of a player as bytes, and of a call.
pub mod Numbers
pub mod Fields
pub mod PlayerLeft
pub mod Calls
pub mod NextCall
pub mod Recordings
pub mod Rows
