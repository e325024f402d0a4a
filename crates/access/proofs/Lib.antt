-- What the proofs about accesses share.
pub mod Spans
pub mod Checks
pub mod Completed
pub mod Decided
pub mod InUnits
