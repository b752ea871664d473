pub mod Wants
pub mod Conversations
pub mod Clients
pub mod Turns
pub mod Serving
