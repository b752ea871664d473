pub mod Numbers
pub mod Spelled
pub mod Reading
pub mod Choosing
pub mod Claiming
pub mod Reaching
pub mod Newest
