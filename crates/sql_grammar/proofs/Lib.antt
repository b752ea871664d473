pub mod Apart
pub mod Laws
pub mod Lists
pub mod Repeats
pub mod Determined
pub mod OneReading
pub mod Steps
pub mod Leaves
