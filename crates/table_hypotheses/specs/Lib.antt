pub mod Soundness
pub mod OneTable
