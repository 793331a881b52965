pub mod Abandon
pub mod AbandonLaws
