pub mod OrderKeeps
pub mod PowerKeeps
pub mod EventKeeps
pub mod AnswerLaws
