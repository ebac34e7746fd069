pub mod Choices
pub mod Cuts
pub mod Groups
pub mod Scans
pub mod Searches
