pub mod SliceLemmas
pub mod EndLemmas
pub mod TextLemmas
pub mod IntegerLemmas
pub mod ParseLemmas
pub mod ColumnLemmas
pub mod PrintLemmas
pub mod WordLemmas
pub mod AnswerLemmas
pub mod LengthLemmas
pub mod DigitLemmas
pub mod OperationLemmas
pub mod ConstantLemmas
mod EncodingExamples
pub mod RoomLemmas
pub mod RunLemmas
mod StoredDepth
