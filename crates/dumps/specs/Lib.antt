pub mod Form
pub mod OnDevice
pub mod SeveralLists
pub mod Reading
pub mod Writing
pub mod Faults
