pub mod Trees
pub mod Postfix
pub mod Rooms
