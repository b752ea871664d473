pub mod EventlessCommands
pub mod Commands
