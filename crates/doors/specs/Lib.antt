pub mod Doors
pub mod DoorTalks
pub mod Entries
