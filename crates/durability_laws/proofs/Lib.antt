pub mod Eventless
pub mod Chains
mod Doing
