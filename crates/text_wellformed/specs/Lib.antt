pub mod Context
pub mod Meant
