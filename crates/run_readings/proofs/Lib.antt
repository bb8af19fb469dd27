-- Laws of a run's fields.
pub mod Widths
pub mod Filling
pub mod Told
