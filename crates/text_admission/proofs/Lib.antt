-- Laws that the proofs of the functions cite.
pub mod Facts
pub mod Spots
pub mod Extending
pub mod Leasts
pub mod Marking
pub mod Judging
pub mod Answering
pub mod Stages
pub mod HeaderPlaces
pub mod Handing
