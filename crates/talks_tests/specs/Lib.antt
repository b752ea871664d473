pub mod Memory
pub mod TwoClients
pub mod Echoes
pub mod FrontLaws
pub mod Desks
pub mod OpeningLaws
