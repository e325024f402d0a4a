-- What the short way in means.
pub mod ShortWay
-- How a call begins
pub mod Entry
