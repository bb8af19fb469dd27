-- The three conditions proved.
pub mod Tables
pub mod Buffers
pub mod OneAnswer
pub mod Conditions
pub mod Seeing
pub mod Calls
