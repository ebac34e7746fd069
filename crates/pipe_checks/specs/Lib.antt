pub mod Uses
pub mod Kinds
pub mod Columns
pub mod Places
pub mod Laws
