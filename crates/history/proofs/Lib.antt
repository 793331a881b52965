pub mod EveryHistory
