mod Spellings
mod Searching
pub mod OnePlace
