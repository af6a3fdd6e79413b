pub mod TakesLemmas
pub mod DiskLemmas
pub mod StoppedLemmas
