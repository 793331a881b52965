pub mod Ops
pub mod Wrote
pub mod WroteLaws
pub mod Control
pub mod Link
pub mod Typed
pub mod TypedLaws
