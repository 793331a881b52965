pub mod Slots
pub mod SlotsLaws
pub mod StoredLaws
pub mod Tally
pub mod Waking
pub mod WakingLaws
pub mod Completing
pub mod CompletingLaws
