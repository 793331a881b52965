pub mod Script
pub mod Numbers
pub mod NumbersLaws
pub mod Examples
