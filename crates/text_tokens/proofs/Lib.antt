-- Laws that the proofs of the functions cite.
pub mod Examples
pub mod Found
pub mod Gapped
pub mod Bounds
pub mod Worded
pub mod Digits
