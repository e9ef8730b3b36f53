pub mod Costs
pub mod Exceptions
pub mod PatchMaps
pub mod PatchParts
pub mod Widths
