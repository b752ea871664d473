mod Parts
mod Placing
pub mod Migrating
pub mod Ending
mod Faults
pub mod Reading
pub mod Outcomes
