pub mod KeptLaws
pub mod SameLaws
pub mod SumLaws
pub mod DifferenceLaws
pub mod TallyLaws
