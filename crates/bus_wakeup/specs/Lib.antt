pub mod Wakeup
pub mod WakeupLaws
