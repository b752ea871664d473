pub mod Descriptions
