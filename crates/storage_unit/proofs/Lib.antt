-- Laws of this crate.
pub mod Conditions
pub mod Prefixes
