pub mod Sections
pub mod Cells
pub mod Columns
pub mod Json
pub mod LineTexts
