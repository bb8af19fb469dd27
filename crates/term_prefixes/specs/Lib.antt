pub mod Prefixes
pub mod Marks
