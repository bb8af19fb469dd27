-- The words that are encoded from a right text hold the grammar that the text means.
pub mod TermLists
pub mod PartLists
pub mod ListsHeld
pub mod NodesHeld
pub mod Holding
pub mod Uints
pub mod TreeLists
pub mod Trees
pub mod Fitting
