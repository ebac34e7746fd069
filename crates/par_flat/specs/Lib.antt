pub mod Rooms
pub mod Slots
pub mod Keys
pub mod Blocks
