pub mod Chains
pub mod Meanings
pub mod Theorems
pub mod Firm
pub mod Repeating
