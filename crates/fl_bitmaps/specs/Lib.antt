pub mod Bitmaps
pub mod Answers
pub mod Errors
pub mod Operators
