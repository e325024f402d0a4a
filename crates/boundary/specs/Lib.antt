-- What the boundary means: numbers and bytes as settings, records, requests and answers; a call.
pub mod Boundary
-- A record as two words
pub mod Words
