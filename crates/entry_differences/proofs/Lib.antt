pub mod DifferenceLemmas
pub mod AddLemmas
