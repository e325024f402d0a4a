-- The laws that several proofs share.
pub mod Lines
pub mod Keys
pub mod Steps
