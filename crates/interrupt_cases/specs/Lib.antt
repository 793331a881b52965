pub mod SettledLaws
pub mod SightLaws
