-- Laws that the proofs of the functions cite.
pub mod Reaches
pub mod Sizes
pub mod PieceLaws
pub mod PieceFound
pub mod Spelling
