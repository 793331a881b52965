pub mod Take
pub mod TakeLaws
