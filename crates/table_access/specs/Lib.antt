pub mod Asking
pub mod Having
pub mod Accesses
pub mod Likeness
pub mod Powers
