pub mod Picked
pub mod Made
pub mod Lengths
pub mod Ranging
pub mod Cut
pub mod Flat
pub mod Few
pub mod Sound
