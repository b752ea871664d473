pub mod Places
pub mod Systems
pub mod Entries
pub mod Clients
pub mod Memory
pub mod MemoryLaws
pub mod MemSystem
