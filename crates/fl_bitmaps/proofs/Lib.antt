pub mod BitLaws
pub mod LogicLaws
pub mod AnswerLaws
pub mod CountLaws
pub mod ErrorLaws
pub mod TurnLaws
