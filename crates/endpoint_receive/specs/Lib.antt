pub mod Receive
pub mod ReceiveLaws
