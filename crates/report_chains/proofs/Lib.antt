-- Laws of strings that begin with others.
pub mod Cuts
