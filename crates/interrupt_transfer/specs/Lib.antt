pub mod Transfers
pub mod Pieces
