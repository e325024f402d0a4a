-- What the boundary of the channel means.
pub mod ChannelCalls
pub mod Reading
