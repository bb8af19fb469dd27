-- Laws of term words.
pub mod KnownTerms
