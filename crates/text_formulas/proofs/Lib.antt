-- Laws that the proofs of the functions cite.
pub mod Calculating
pub mod Choosing
pub mod Testing
