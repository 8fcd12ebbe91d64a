pub mod Ids
pub mod Trees
pub mod Paths
pub mod Heads
pub mod Laws
pub mod Values
pub mod HeadOrder
