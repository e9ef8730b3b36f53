pub mod Cheapest
pub mod EncodedBytes
pub mod Candidates
pub mod Choices
pub mod Smallest
pub mod Statistics
