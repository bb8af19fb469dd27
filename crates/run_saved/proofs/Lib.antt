-- Laws of a saved run's bytes.
pub mod Bytes
pub mod Patterns
pub mod Saving
pub mod Owned
pub mod Parts
pub mod Trips
pub mod Examples
