pub mod Query
pub mod QueryLaws
