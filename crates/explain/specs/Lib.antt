-- What the report goes by.
pub mod Report
