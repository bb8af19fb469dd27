pub mod Bounds
pub mod Depths
pub mod Passing
pub mod Theorems
pub mod Forms
