pub mod Numbers
pub mod Lists
pub mod Moving
pub mod Stores
pub mod Told
pub mod TwoRuns
pub mod Bytes
pub mod StoresApart
