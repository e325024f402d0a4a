-- What the proofs about storage keys share.
pub mod Entries
