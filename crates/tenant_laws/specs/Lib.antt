pub mod TenantLives
pub mod LivesApart
pub mod DeviceLives
