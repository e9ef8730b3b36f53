pub mod Again
mod Rows
pub mod Sizes
pub mod Sound
pub mod Steps
pub mod Written
