pub mod Clauses
pub mod Sound
