-- Laws that the proofs of the functions cite.
pub mod TerminalLaws
pub mod Resuming
pub mod Steps
pub mod Loops
