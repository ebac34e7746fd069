pub mod Outcomes
pub mod Rulings
pub mod Sources
pub mod Runs
pub mod Rests
pub mod Answers
pub mod Endings
