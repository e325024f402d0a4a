-- Laws of the reader.
pub mod Bodies
pub mod Front
pub mod Written
pub mod ReadBack
pub mod Rows
