pub mod Used
pub mod Placed
pub mod Found
pub mod Entries
