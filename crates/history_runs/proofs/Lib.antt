pub mod StepLaws
pub mod RunLaws
pub mod BeginsData
pub mod HistoryLaws
