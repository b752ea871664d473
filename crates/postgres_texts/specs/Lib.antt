pub mod Sentences
pub mod Words
pub mod Reserved
pub mod Settings
pub mod SettingViews
