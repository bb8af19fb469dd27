pub mod Stored
pub mod Acts
