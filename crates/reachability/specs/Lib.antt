pub mod Reached
pub mod Found
pub mod Waiting
pub mod Keyed
