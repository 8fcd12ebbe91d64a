pub mod Searching
pub mod Keys
pub mod Lookups
