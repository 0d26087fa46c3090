pub mod Choice
pub mod Bytes
pub mod Bits
pub mod Big
pub mod Lowest
