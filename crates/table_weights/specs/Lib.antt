pub mod Ruled
pub mod Sweeps
pub mod Weighed
