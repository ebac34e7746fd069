pub mod Packed
pub mod Pushes
pub mod Runs
