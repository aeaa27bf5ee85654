pub mod Example
pub mod AnswerLaws
pub mod HeldLaws
