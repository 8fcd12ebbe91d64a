pub mod Waiting
pub mod Calls
pub mod Callers
pub mod PathRule
