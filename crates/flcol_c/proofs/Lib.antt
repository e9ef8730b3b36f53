pub mod AnswerLaws
pub mod BitmapLaws
mod HandleSteps
mod PairSteps
pub mod ContainerLaws
pub mod EncodeLaws
pub mod NullLaws
pub mod ReadLaws
pub mod StatusLaws
pub mod ValidityLaws
pub mod ValueLaws
pub mod CompressLaws
pub mod NullCounts
pub mod BooleanLaws
pub mod PlainLaws
pub mod PassingLaws
pub mod RecordLaws
pub mod FeetLaws
pub mod FileLaws
pub mod CallLaws
