pub mod Words
pub mod Cells
pub mod Access
pub mod Definitions
pub mod Powers
pub mod Lines
pub mod Differences
pub mod Told
