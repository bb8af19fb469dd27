-- What is told of the fields of a run.
pub mod Told
