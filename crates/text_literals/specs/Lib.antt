pub mod Literals
pub mod Pieces
