pub mod Reducing
pub mod Firsts
pub mod Lasting
pub mod Seeking
pub mod Tallies
pub mod Paired
