pub mod Outcome
pub mod Walk
