mod Within
mod Walks
mod Stepwise
mod Second
mod Apart
pub mod Table
mod Counted
mod Alike
pub mod OneCommand
mod Sound
pub mod ReadStatements
mod Wholes
pub mod PolicyTexts
