pub mod Replications
pub mod Runs
pub mod Laws
pub mod Happens
