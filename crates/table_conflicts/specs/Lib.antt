pub mod Conflicts
pub mod Windows
pub mod Clashes
