pub mod Committing
pub mod ServedAlike
pub mod ServedLivesTold
pub mod SaidLives
pub mod SaidBefore
pub mod MadeLives
pub mod ServedLivesApart
pub mod OneLogin
