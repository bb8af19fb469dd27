pub mod Runs
pub mod Counting
pub mod Using
pub mod Reading
pub mod Clamping
pub mod FewTerms
