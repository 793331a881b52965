pub mod Tested
pub mod NamedLaws
pub mod FirstLaws
pub mod GivenLaws
pub mod TestedLaws
