pub mod Places
pub mod Below
pub mod Slots
pub mod Rows
pub mod Buckets
