pub mod SoundLaws
pub mod SequenceLaws
pub mod NotedLaws
pub mod MemoryLaws
pub mod AsksLaws
