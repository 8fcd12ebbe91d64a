pub mod Disk
pub mod Plans
pub mod Parts
