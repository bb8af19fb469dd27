pub mod Counting
pub mod Limits
pub mod Names
