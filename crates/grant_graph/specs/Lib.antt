pub mod Keys
pub mod Supports
pub mod Marking
pub mod Revoking
pub mod Acting
pub mod Merging
