pub mod Bytes
pub mod Rows
pub mod RowsLaws
pub mod Examples
