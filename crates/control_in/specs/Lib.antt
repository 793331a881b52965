pub mod DataIn
pub mod DataInLaws
