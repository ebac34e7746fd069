pub mod Markets
pub mod Deques
pub mod Seats
