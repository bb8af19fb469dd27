-- The lists of terms of a tree.
pub mod Folding
pub mod Meaning
pub mod Readable
