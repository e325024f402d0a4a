-- The laws of what numbers and bytes stand for.
pub mod Records
pub mod Words
pub mod Settings
pub mod Laws
pub mod PairCalls
