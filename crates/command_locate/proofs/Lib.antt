pub mod Tests
pub mod Locations
pub mod Locating
