pub mod Asking
pub mod AskingLaws
pub mod Turns
pub mod Settled
pub mod SettledLaws
