pub mod Counts
pub mod Steps
pub mod Walk
pub mod Valid
