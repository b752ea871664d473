pub mod Truths
pub mod Guards
