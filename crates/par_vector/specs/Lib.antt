pub mod Packed
pub mod Kids
pub mod Runs
