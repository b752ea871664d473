pub mod Done
pub mod Shown
pub mod Answers
pub mod Entitled
pub mod Places
pub mod Runs
