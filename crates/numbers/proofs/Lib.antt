pub mod Choice
pub mod Joined
pub mod Bytes
pub mod Big
pub mod Tables
pub mod Bits
pub mod Lowest
