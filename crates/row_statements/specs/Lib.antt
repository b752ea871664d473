pub mod Users
pub mod Executed
pub mod Ranges
pub mod Damage
pub mod Targeted
pub mod Reading
pub mod Costs
