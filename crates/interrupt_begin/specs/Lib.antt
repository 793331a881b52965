pub mod Begin
pub mod BeginLaws
