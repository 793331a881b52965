pub mod Turn
pub mod Outcome
pub mod OutcomeLaws
