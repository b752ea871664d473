pub mod Changes
pub mod Counting
