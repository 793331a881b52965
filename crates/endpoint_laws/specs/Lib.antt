pub mod Sends
pub mod SendLaws
pub mod Receives
pub mod ReceiveLaws
pub mod MoveLaws
pub mod MoveKeeps
pub mod IgnoredLaws
pub mod OwnLaws
