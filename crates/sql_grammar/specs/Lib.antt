pub mod Productions
pub mod Classes
pub mod Phrases
pub mod LookAhead
