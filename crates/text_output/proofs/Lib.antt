pub mod Commands
pub mod Sizes
