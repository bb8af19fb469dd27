-- What is wrong with a name.
pub mod Faults
