pub mod Roles
pub mod Dumping
pub mod Restoring
pub mod Counting
