pub mod Sequence
pub mod Remembered
pub mod Asked
