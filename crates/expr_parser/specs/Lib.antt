pub mod Grammar
pub mod Whole
pub mod Stages
pub mod Written
pub mod Precedence
