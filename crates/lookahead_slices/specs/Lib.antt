pub mod Family
pub mod Narrow
