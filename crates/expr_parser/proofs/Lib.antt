pub mod Descent
pub mod OneAnswer
pub mod Primaries
pub mod Readings
pub mod Wholes
pub mod ReadTerms
pub mod AloneOperands
