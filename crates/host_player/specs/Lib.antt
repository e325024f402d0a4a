-- What a call of the player means.
pub mod Playing
