pub mod Commands
pub mod Statements
pub mod Steps
pub mod Determined
