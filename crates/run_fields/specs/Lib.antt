-- What a field of a reading is.
pub mod Fields
