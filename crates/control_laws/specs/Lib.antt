pub mod KeptLaws
pub mod ControlKeeps
pub mod CopiedLaws
