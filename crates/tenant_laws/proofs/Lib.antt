pub mod LivesTold
pub mod LivesApart
pub mod DeviceLives
