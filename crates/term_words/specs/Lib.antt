pub mod Numbers
pub mod Words
pub mod Tests
pub mod Steps
