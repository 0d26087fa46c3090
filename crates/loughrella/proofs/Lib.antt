pub mod Hosted
pub mod Returned
pub mod Marking
pub mod MovedCalls
pub mod ClassCalls
