pub mod Entries
pub mod Comparing
pub mod Logs
