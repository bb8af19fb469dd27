-- What the advice on a token goes by.
pub mod Codes
