pub mod Definitions
pub mod RecordFormat
pub mod Items
pub mod Valid
pub mod Records
pub mod BothRecordFormats
pub mod Entries
pub mod Examples
