pub mod Channels
pub mod Comings
pub mod Memory
