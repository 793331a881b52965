pub mod Setup
pub mod SetupLaws
