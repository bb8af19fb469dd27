-- Laws of what 24 asks, and of grants.
pub mod Fitting
pub mod Ways
pub mod Taken
pub mod Entries
pub mod Kept
pub mod Grants
