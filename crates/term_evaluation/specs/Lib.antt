pub mod Meaning
pub mod Counts
pub mod Variables
pub mod Patterns
pub mod Short
