pub mod TakeOut
pub mod TakeOutLaws
