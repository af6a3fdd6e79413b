pub mod LoadLemmas
pub mod MemoryLemmas
pub mod StatusLemmas
pub mod TellingLemmas
