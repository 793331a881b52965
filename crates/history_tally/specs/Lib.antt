pub mod Ledger
pub mod Kept
pub mod Statement
