pub mod AnswerView
pub mod Answers
pub mod Content
pub mod Texts
