pub mod NewStore
pub mod Runs
pub mod Cuts
pub mod Sizes
pub mod Worked
