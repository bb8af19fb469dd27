pub mod Bits
pub mod Patterns
pub mod Lookahead
pub mod Counts
pub mod Limits
