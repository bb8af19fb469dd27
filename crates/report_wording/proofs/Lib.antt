-- Laws behind the proofs of the report.
pub mod LineLaws
pub mod WalkLaws
