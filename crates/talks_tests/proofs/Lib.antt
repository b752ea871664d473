pub mod Steps
pub mod Two
pub mod Refusing
