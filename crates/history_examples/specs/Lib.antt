pub mod Lines
pub mod Phrases
pub mod Example
pub mod Ready
pub mod Wrong
