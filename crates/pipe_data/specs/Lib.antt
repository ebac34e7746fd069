pub mod Data
pub mod Left
pub mod Stops
