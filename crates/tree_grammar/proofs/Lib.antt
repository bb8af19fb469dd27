-- The grammar of what is stored of a tree is the tree's.
pub mod Parts
pub mod Nodes
pub mod Terms
pub mod Lists
pub mod Widths
pub mod Formulas
pub mod Counting
pub mod Firsts
pub mod Defaults
pub mod Walk
pub mod Pieces
pub mod OneRule
pub mod AllRules
pub mod SameGrammar
