pub mod Queues
pub mod Lists
pub mod Sweeps
pub mod Follows
pub mod Numbers
pub mod Keys
