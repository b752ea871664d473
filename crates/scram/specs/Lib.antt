pub mod Exchanges
pub mod Messages
pub mod Mocks
