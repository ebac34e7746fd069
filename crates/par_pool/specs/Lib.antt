pub mod Plans
pub mod Bundles
pub mod Own
pub mod World
pub mod Tails
pub mod Lists
