pub mod Recorded
pub mod Held
pub mod Readings
pub mod Touched
