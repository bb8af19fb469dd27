pub mod Extents
pub mod Answers
pub mod Admitted
pub mod Late
