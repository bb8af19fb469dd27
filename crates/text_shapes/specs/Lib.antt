pub mod TermShapes
pub mod NodeShapes
pub mod Stored
pub mod Placed
