pub mod Loops
pub mod Parts
pub mod BodyLaws
pub mod Whole
pub mod Starts
pub mod Fronts
pub mod Forms
