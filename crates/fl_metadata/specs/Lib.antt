pub mod Wire
pub mod WireReading
pub mod Schemas
pub mod WrittenText
pub mod Messages
pub mod Scalars
pub mod Fits
