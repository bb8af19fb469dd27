pub mod Walks
pub mod Lows
pub mod Holders
pub mod Continuing
pub mod Meaning
