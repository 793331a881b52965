pub mod RoundingLaws
pub mod CountLaws
pub mod PacketsLaws
pub mod SendsLaws
pub mod ReceivesLaws
pub mod PlanLaws
