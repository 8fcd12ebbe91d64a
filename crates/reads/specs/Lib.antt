pub mod Reads
pub mod Heads
