pub mod Script
pub mod Tallies
pub mod TalliesLaws
