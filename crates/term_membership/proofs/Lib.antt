pub mod Items
pub mod Rounds
pub mod Members
