pub mod Completions
pub mod Forms
pub mod Places
pub mod Policies
