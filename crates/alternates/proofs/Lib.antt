pub mod NoneUsed
pub mod Wrong
pub mod Placing
pub mod Found
