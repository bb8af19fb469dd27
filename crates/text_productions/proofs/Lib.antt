-- What a right text is made of.
pub mod Parts
pub mod Derived
