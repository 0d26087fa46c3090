pub mod Putting
pub mod Spreading
