-- What a chain is.
pub mod Chains
