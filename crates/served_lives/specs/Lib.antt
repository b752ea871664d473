pub mod ServedLives
pub mod SaidLives
pub mod SaidBefore
pub mod MadeLives
pub mod ServedLivesApart
pub mod OneLogin
