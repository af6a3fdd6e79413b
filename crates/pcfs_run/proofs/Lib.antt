pub mod AskedLemmas
pub mod PassLemmas
pub mod SentLemmas
pub mod ServedLemmas
pub mod WordsLemmas
pub mod UnsaidLemmas
pub mod NineLawLemmas
pub mod HealthyLemmas
pub mod DiskEndLemmas
pub mod ToldLemmas
mod GoneLemmas
