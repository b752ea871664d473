pub mod Map
pub mod Node
pub mod Search
pub mod Scratch
pub mod Offsets
pub mod Views
pub mod Merge
pub mod Ends
