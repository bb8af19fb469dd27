pub mod Lexemes
pub mod Tree
pub mod Spelling
