pub mod Judged
pub mod Weighed
pub mod Clashing
pub mod Sound
