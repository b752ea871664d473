pub mod Conditions
pub mod Cells
pub mod Infallibility
pub mod InfallibleGuards
pub mod Within
pub mod Records
pub mod Products
pub mod Unchanged
pub mod LeftOut
pub mod Hulls
pub mod OutsideBoxes
pub mod TableRanges
pub mod BoxLists
pub mod BoxFormulas
pub mod InOrders
pub mod JoinedRanges
pub mod Starts
mod MergedSpans
