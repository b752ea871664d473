mod Locking
pub mod Placing
pub mod Queueing
pub mod Steps
pub mod Expelling
