pub mod WidestLaws
pub mod LeastLaws
