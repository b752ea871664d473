pub mod FrameTalks
pub mod FrameLaws
pub mod Served
pub mod Example
