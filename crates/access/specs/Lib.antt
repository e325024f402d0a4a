-- What the helpers of an access mean.
pub mod ByUnit
pub mod Moving
