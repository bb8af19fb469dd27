pub mod Members
pub mod Effects
pub mod Truths
pub mod Batches
