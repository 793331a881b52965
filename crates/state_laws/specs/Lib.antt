pub mod TallyLaws
pub mod EventsLaws
pub mod SlotLaws
pub mod SetterLaws
pub mod ConfigLaws
