pub mod Interrupt
pub mod InterruptLaws
pub mod Parts
