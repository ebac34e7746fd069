pub mod Spelled
pub mod Answers
pub mod Bound
pub mod Mapped
