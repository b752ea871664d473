pub mod Elements
pub mod Links
pub mod Whole
pub mod Marks
pub mod Revokes
pub mod Holders
pub mod Merges
