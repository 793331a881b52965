pub mod LowestLaws
pub mod LayoutLaws
pub mod StartKeeps
pub mod ToldLaws
