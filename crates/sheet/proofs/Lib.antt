-- The sheet proved.
mod Computing
mod Texts
mod Stages
mod Grammars
mod Nodes
mod Admitting
mod Running
mod Meeting
mod Choosing
mod Clashing
mod Refusing
pub mod Sheet
