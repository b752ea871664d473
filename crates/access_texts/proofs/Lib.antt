pub mod Ordered
pub mod Placed
