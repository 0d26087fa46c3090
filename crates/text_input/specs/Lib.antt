pub mod Input
pub mod Reads
