pub mod Followed
pub mod LeftOut
pub mod Finding
pub mod Standing
pub mod Plain
pub mod Reading
