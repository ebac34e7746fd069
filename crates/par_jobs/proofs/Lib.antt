pub mod Scanning
pub mod Searching
pub mod Fronts
pub mod Faults
pub mod Lasts
pub mod Spanning
pub mod Whole
pub mod Leasts
