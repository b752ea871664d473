pub mod Asking
pub mod Explained
pub mod Explanations
pub mod Keys
