pub mod Grammar
pub mod Derivation
pub mod Lookahead
pub mod Machine
pub mod Weight
pub mod Scope
pub mod Hypotheses
pub mod Theorems
