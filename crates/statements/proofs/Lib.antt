pub mod Unread
pub mod Executing
pub mod Describing
