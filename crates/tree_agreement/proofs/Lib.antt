-- A text's grammar and its tree's have the same derivations, sets, weights and runs.
pub mod SameNodes
pub mod SameSets
pub mod Derivations
pub mod SameRuns
pub mod Texts
pub mod Places
pub mod Telling
