pub mod FlatAlike
pub mod TrieUnited
pub mod BucketsAlike
