pub mod Followers
pub mod Pieces
