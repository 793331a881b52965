pub mod Call
pub mod Step
pub mod StepLaws
pub mod Says
