pub mod DataOut
pub mod DataOutLaws
