-- Numbers of rules in what is stored of a tree.
pub mod Rules
pub mod Reaching
pub mod Bodies
pub mod Variables
pub mod Owners
pub mod Sums
