-- Laws that the proofs of the functions cite.
pub mod Atoms
pub mod Chains
pub mod Ruling
