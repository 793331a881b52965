pub mod Matched
pub mod Heard
