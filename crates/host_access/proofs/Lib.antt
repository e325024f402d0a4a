-- The laws of the short way in.
pub mod Accesses
