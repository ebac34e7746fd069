pub mod Walks
pub mod Puts
pub mod Doubling
pub mod Members
pub mod Blocks
pub mod Unions
pub mod EmptyBlocks
