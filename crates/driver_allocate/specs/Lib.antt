pub mod Rules
pub mod RulesLaws
pub mod Allocate
pub mod AllocateLaws
