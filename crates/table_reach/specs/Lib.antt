pub mod Reaching
pub mod Closure
