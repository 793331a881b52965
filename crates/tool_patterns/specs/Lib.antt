pub mod Patterns
pub mod PatternsLaws
