pub mod Checks
pub mod Parts
pub mod Lists
pub mod Rules
pub mod Laid
