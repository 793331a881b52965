pub mod Chains
pub mod ChainsLaws
