pub mod TransferLaws
pub mod BeginKeeps
pub mod FinishKeeps
pub mod ReportKeeps
