pub mod Numerals
pub mod Parsing
pub mod Writing
pub mod RoundTrip
pub mod Examples
