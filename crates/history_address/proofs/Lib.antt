pub mod WaitingLaws
pub mod RegisterLaws
pub mod AddressLaws
