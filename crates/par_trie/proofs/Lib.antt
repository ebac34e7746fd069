pub mod Digits
pub mod Few
pub mod Kids
pub mod Rows
pub mod Slots
