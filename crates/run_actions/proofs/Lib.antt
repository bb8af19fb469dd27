-- Laws of what a step does.
pub mod Told
pub mod Walks
pub mod Parts
pub mod Literals
pub mod Wholes
pub mod Doing
