pub mod Renumbered
pub mod Clients
pub mod TwoRuns
pub mod Connections
pub mod StoresApart
