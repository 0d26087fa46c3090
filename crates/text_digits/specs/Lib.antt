pub mod Digits
pub mod Output
