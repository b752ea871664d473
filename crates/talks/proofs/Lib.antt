pub mod Courses
pub mod CuttingOff
pub mod Passing
pub mod Sessions
pub mod Turning
pub mod Dropping
