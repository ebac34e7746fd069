pub mod Held
pub mod Values
pub mod Sets
pub mod Filling
