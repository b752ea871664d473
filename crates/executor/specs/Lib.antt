pub mod Joined
pub mod Selected
pub mod ByParts
pub mod FoundOrder
pub mod Known
pub mod Certain
pub mod Narrowed
