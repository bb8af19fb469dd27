-- The fields of a kiosk's run.
pub mod Fields
