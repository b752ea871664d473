pub mod Taken
pub mod Spelled
pub mod Told
