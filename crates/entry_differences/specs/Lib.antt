pub mod Differences
pub mod Additions
