pub mod Outcomes
pub mod Chunks
pub mod Chunked
pub mod Plans
pub mod Files
pub mod Facts
pub mod OneChunk
