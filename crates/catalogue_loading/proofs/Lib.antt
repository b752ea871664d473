pub mod Prefixed
pub mod Loading
pub mod Named
pub mod Fronts
pub mod PrivilegeRecords
pub mod Listed
pub mod Laid
pub mod Written
pub mod PolicyRecordLemmas
pub mod Checking
pub mod Orphan
pub mod KnownPrefixes
pub mod PrefixChecks
pub mod Lists
mod CheckedClauses
mod Supports
pub mod Differing
pub mod Cycles
pub mod Granted
pub mod Bound
pub mod Valid
pub mod Finding
pub mod BindingLemmas
pub mod TableLemmas
pub mod DefinitionLemmas
pub mod OrphanLemmas
pub mod RecordedLemmas
pub mod Checked
