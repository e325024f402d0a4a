-- Laws of the bytes that are held.
pub mod Fits
