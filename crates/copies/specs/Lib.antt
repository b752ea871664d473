pub mod RecordCopies
pub mod DeviceCopies
pub mod Wanted
pub mod DatabaseCopies
