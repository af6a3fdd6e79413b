pub mod GoesOnLemmas
pub mod TurningLemmas
pub mod HistoryLemmas
pub mod AskingLemmas
pub mod LookingLemmas
pub mod MergedLemmas
pub mod GrowingLemmas
