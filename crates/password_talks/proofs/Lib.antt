pub mod Beginnings
pub mod Steps
pub mod Standing
pub mod Learning
pub mod Showing
pub mod Coming
pub mod LettingIn
pub mod Insides
