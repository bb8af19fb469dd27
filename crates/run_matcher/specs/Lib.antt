pub mod Opening
pub mod Windows
pub mod Conditions
