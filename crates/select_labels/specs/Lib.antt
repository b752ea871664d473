pub mod Lists
pub mod Labels
pub mod Sorting
pub mod Unlabelled
pub mod Views
pub mod Marks
pub mod Standing
pub mod Putting
