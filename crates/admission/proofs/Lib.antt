-- A text is answered by the first row of document 01's table that fits it.
pub mod Rows
pub mod Stages
pub mod Trees
pub mod Holding
pub mod Values
pub mod Late
pub mod Numbers
pub mod Exactly
pub mod Promised
