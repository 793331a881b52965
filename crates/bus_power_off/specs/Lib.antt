pub mod PowerOff
pub mod PowerOffLaws
