-- Refusal 7 of the table is that of the tree.
pub mod SmallKinds
pub mod Decoded
pub mod Tables
