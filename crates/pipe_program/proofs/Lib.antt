pub mod Order
pub mod Walk
pub mod Settled
pub mod Again
pub mod Columns
pub mod Counting
mod Numbering
mod Soundness
