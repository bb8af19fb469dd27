-- The numbers of strings.
pub mod Strings
