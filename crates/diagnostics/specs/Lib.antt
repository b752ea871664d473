pub mod Aliases
pub mod Events
pub mod LeftOut
pub mod Marks
pub mod Meanings
pub mod Words
