-- Laws of what is stored and read back.
pub mod Numbers
pub mod Rooms
pub mod Putting
pub mod StoreLaws
pub mod Columns
