pub mod Reached
pub mod Unique
pub mod MovedEnds
