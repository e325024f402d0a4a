-- How the code writes a record
pub mod Writing
-- What is served over the bytes of the records
pub mod Serving
