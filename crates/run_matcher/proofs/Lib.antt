-- Laws of an opening, and the mission's conditions.
pub mod Answers
pub mod Moments
pub mod AnyReading
pub mod Telling
pub mod Conditions
pub mod Others
