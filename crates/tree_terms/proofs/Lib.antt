-- Sets, counts and conditions mean the same as the trees that their terms hold.
pub mod Meanings
pub mod Variables
pub mod Small
pub mod Fitting
pub mod Rooms
pub mod Worked
