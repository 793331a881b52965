pub mod Order
pub mod OrderLaws
