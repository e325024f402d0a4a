-- What the helpers of the channel mean.
pub mod Ranges
pub mod Requests
