pub mod Sets
pub mod Rules
pub mod Rounds
pub mod Parts
pub mod Fields
pub mod Follows
