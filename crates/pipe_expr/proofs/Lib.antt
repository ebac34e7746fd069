pub mod Basics
pub mod Steps
pub mod Sound
pub mod Complete
pub mod Turns
pub mod Whole
pub mod Deep
