pub mod Nodes
pub mod Codes
pub mod Sizes
