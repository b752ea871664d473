pub mod Chains
pub mod Rights
pub mod Merging
pub mod Index
