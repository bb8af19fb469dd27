-- Laws of a step's writes and bound, and of runs.
pub mod Places
pub mod Bounds
pub mod Running
