pub mod State
pub mod Memory
