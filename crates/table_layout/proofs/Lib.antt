-- Laws of the definitions in `specs/`.
pub mod Bounds
pub mod Sizes
pub mod Views
