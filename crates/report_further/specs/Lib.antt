-- The first name at fault from a place on.
pub mod Further
