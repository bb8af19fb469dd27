-- Lines, nesting and bytes of a grammar's text, for the report.
pub mod Lines
pub mod Nesting
pub mod Shown
pub mod Walking
