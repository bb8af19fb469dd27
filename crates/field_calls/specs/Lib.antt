-- The fields of a kiosk's run, by the calls of a C program.
pub mod Fields
