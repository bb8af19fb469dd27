pub mod Places
pub mod Constructs
pub mod Attributes
pub mod Held
