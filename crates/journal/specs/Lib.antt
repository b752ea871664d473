pub mod Chain
pub mod Journal
pub mod Sectors
pub mod Changes
pub mod Records
pub mod Journals
pub mod Appends
pub mod Reading
