-- Laws of the definitions in `specs/`.
pub mod Booleans
pub mod Values
pub mod Numbers
pub mod Joins
pub mod CountLaws
pub mod Frames
pub mod Strings
pub mod PatternLaws
pub mod PatternCases
