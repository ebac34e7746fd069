pub mod Plans
pub mod Parts
pub mod Reading
pub mod Spelling
