pub mod Table
pub mod Faults
pub mod Verdicts
