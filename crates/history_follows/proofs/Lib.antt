pub mod SendingLaws
pub mod ReceivingLaws
pub mod FollowsLaws
pub mod FitsLaws
