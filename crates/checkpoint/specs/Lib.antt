pub mod Logs
pub mod Values
