pub mod Cutting
pub mod GoingOn
pub mod Histories
pub mod Joining
pub mod Living
pub mod NewDatabaseMade
pub mod Opening
pub mod Answering
pub mod Serving
pub mod Leaving
pub mod DeviceGoingOn
pub mod DeviceLiving
mod Made
pub mod DeviceOpening
pub mod Telling
pub mod StillOpened
