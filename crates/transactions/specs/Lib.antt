pub mod Views
pub mod Calls
pub mod Merging
pub mod Within
pub mod WithinLaws
pub mod Places
pub mod Commits
