pub mod Rows
pub mod Asked
pub mod Reached
