pub mod BigEndian
pub mod Packed
pub mod Places
