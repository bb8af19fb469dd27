-- What the numbers of a listed chain say, and how they are read from the last to the first.
pub mod Told
pub mod Replayed
