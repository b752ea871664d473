pub mod Each
pub mod Meanings
pub mod OrderLaws
pub mod PartLemmas
pub mod Results
pub mod Sizes
pub mod Infallibility
