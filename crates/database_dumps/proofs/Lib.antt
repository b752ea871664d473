pub mod Dumped
pub mod Counted
pub mod Restored
pub mod RestoredOn
pub mod Stored
pub mod Earlier
