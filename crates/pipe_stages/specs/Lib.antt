pub mod Stops
pub mod Rows
pub mod Pieces
pub mod Ranges
pub mod Stages
pub mod Audits
pub mod Runs
