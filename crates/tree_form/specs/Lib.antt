pub mod Spelled
pub mod Form
pub mod Stored
