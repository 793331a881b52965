pub mod Raise
pub mod Poll
pub mod EventLaws
