pub mod Alike
pub mod Begun
pub mod Places
