pub mod PasswordLines
pub mod Passwords
