-- Why what was read is a chain.
pub mod Stacks
pub mod Widths
pub mod Rules
pub mod Readiness
pub mod Counting
pub mod Tails
