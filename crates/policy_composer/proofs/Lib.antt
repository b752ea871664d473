pub mod Gathering
pub mod Outcomes
pub mod Bound
pub mod Applicable
pub mod Exempt
pub mod Guards
