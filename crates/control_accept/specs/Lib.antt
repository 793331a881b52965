pub mod Accept
pub mod AcceptLaws
