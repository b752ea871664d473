pub mod LockWatches
pub mod Strangers
pub mod Peers
pub mod ClientStates
