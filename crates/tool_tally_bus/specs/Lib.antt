pub mod Layout
pub mod Bus
