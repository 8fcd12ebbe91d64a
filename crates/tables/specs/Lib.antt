pub mod Tags
pub mod PathReads
pub mod Tables
pub mod Sound
pub mod Room
pub mod Calls
pub mod Paths
