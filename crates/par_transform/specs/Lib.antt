pub mod Flattening
pub mod Indexes
pub mod Joins
pub mod TooMany
pub mod Stops
