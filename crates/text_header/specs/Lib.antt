pub mod Bytes
pub mod Spans
pub mod Header
pub mod Split
