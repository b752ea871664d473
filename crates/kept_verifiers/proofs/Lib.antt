pub mod TableRows
pub mod Finding
pub mod Keeping
