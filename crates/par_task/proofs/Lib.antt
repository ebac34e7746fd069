pub mod Places
pub mod ChainSteps
pub mod Tiling
pub mod Stops
pub mod Counting
pub mod Running
