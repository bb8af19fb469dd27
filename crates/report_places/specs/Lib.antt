-- What `locate` promises.
pub mod Located
