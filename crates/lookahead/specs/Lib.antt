pub mod Sets
pub mod Least
pub mod Inner
