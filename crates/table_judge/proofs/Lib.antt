pub mod Judging
pub mod Values
pub mod Standing
pub mod Soundness
