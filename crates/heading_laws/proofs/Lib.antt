pub mod AskedOnce
pub mod Framed
