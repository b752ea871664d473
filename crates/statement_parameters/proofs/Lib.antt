pub mod Lists
pub mod Behind
pub mod Bound
pub mod Reading
pub mod Outside
pub mod Plain
pub mod Written
pub mod OneReading
