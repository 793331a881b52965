pub mod Start
pub mod StartLaws
