pub mod Fresh
pub mod Setters
pub mod Numbers
pub mod Refusals
pub mod RefusalsLaws
pub mod Awaiting
