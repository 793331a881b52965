pub mod Ideal
pub mod Plan
