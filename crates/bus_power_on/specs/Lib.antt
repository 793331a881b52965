pub mod PowerOn
pub mod PowerOnLaws
