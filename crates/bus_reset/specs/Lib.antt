pub mod Reset
pub mod ResetLaws
