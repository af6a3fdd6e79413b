pub mod IndexLemmas
pub mod PlainLemmas
pub mod ReadingLemmas
pub mod RecountLemmas
pub mod RowLemmas
pub mod StandingLemmas
