pub mod Hearing
pub mod Coming
