-- Laws of the definitions in `specs/`.
pub mod Rows
pub mod Closures
pub mod Searches
pub mod Constructs
pub mod ReachLaws
