mod Computed
mod Judged
mod Passing
mod Apart
pub mod ExampleLaws
pub mod TransferLaws
pub mod WrongLaws
pub mod AddressLaws
pub mod AsksLaws
