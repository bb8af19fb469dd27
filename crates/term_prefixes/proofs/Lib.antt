pub mod Windows
pub mod MarkLaws
pub mod TryLaws
pub mod Steady
pub mod ToldLaws
