pub mod Pieces
pub mod Deciding
pub mod Ending
pub mod Agreeing
pub mod Staging
pub mod Sourcing
