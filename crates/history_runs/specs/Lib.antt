pub mod Runs
pub mod Statement
