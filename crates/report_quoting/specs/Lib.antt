-- Where a part of a text ends.
pub mod Parts
