pub mod Related
pub mod Reached
pub mod Shown
pub mod TwoOwners
pub mod HiddenColumns
pub mod HiddenPay
pub mod ColumnRuns
