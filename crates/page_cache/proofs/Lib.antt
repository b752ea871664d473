pub mod Entries
pub mod Slotted
