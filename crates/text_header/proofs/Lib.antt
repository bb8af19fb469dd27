-- Laws that the proofs of the functions cite.
pub mod Tests
pub mod Runs
pub mod Lines
pub mod HeaderLaws
pub mod FirstLaws
