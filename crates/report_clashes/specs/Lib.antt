-- How much of the text is quoted.
pub mod Quoted
