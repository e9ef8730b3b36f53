pub mod BitStatistics
pub mod Differences
pub mod WidthTotals
