pub mod Send
pub mod SendLaws
