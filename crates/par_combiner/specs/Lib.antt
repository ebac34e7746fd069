pub mod Chunks
pub mod Joins
pub mod Faults
