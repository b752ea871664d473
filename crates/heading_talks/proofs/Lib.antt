pub mod Wanting
pub mod Hearing
pub mod Asking
pub mod Fronts
