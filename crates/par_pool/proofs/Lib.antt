pub mod Owning
pub mod Spines
pub mod Cutting
pub mod Offering
pub mod Gathering
pub mod Tiling
