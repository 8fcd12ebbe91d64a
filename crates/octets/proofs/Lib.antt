pub mod Widths
pub mod Packing
pub mod Eights
