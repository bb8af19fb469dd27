-- What holds of every tree, and worked examples.
pub mod Deepest
pub mod Examples
