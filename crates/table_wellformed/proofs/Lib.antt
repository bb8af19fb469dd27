-- Laws that the proofs of the functions cite.
pub mod Every
pub mod Walks
pub mod Pointers
pub mod Limits
