pub mod RestsLemmas
pub mod AreaLemmas
pub mod RecordLemmas
pub mod ReadingLemmas
pub mod TotalLemmas
