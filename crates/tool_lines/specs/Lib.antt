pub mod Line
pub mod Digits
pub mod DigitsLaws
pub mod Fields
pub mod FieldsLaws
pub mod ReadLaws
pub mod Examples
