pub mod Tests
pub mod Defining
