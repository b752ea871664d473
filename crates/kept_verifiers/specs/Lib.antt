pub mod Verifiers
