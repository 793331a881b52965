pub mod Answers
pub mod AnswersLaws
pub mod TakenLaws
