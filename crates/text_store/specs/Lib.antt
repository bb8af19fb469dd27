pub mod Store
pub mod Words
