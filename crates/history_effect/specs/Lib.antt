pub mod Seen
pub mod Effect
