pub mod Rules
pub mod KeyBytes
pub mod Keys
