-- What the helpers of this crate give.
pub mod Blocks
