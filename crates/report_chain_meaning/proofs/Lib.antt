-- Why a chain yields its window, and why every window has a chain.
pub mod Reading
pub mod Finding
pub mod Listing
pub mod Theorems
