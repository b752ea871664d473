pub mod Serving
pub mod Spoken
