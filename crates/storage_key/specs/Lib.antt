-- What the table of permissions means.
pub mod Entries
