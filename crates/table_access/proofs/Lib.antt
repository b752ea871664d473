pub mod Gathering
pub mod Shown
pub mod Ranges
