pub mod Formulas
pub mod Guarding
