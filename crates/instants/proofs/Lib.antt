pub mod FrameLaws
pub mod AnswerLaws
pub mod Theorems
