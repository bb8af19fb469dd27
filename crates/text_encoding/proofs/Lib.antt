-- Laws that the proofs of the functions cite.
pub mod Writing
pub mod Sums
pub mod Sizes
pub mod Joining
pub mod Past
