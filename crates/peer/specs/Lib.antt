pub mod Waiting
pub mod Records
pub mod Peers
pub mod Functions
pub mod Replies
