pub mod ConversationLaws
pub mod StandardLaws
