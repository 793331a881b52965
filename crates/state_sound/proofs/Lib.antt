pub mod SoundLaws
pub mod FactLaws
pub mod FaultLaws
