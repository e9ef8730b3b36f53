pub mod Counts
pub mod FirstItems
pub mod Signs
pub mod WidthTotals
pub mod Differences
pub mod DeltaBlocks
pub mod Slots
