pub mod Stepping
pub mod Running
pub mod Placing
