pub mod Terminals
pub mod Symbols
pub mod Form
pub mod Cursors
