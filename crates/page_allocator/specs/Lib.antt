pub mod TakenPages
pub mod Order
