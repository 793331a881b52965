pub mod Reported
pub mod Plain
