pub mod Report
pub mod ReportLaws
