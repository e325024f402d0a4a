-- What the proofs about the channel share.
pub mod Places
pub mod Ranges
pub mod Words
pub mod Requests
pub mod Ccws
pub mod Replies
