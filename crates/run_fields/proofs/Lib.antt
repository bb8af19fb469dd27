-- Laws of fields.
pub mod Widths
