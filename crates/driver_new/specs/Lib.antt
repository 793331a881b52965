pub mod New
pub mod NewLaws
