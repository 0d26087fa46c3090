pub mod Outputs
pub mod Numbers
