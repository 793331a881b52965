pub mod Received
pub mod ReceivedLaws
