pub mod Meaning
pub mod Conditions
pub mod Calls
