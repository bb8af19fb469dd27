-- What `encode` promises.
pub mod Tables
