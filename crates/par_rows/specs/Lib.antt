pub mod Order
pub mod Hash
