pub mod Reject
pub mod RejectLaws
