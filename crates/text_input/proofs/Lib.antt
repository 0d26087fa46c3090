pub mod Lines
pub mod Values
pub mod Reading
pub mod Rights
pub mod Cuts
pub mod Sizes
