pub mod ConditionLemmas
pub mod GrantLemmas
pub mod ItemsLemmas
pub mod NamesLemmas
pub mod PartLemmas
pub mod ProcapLemmas
pub mod ReadingLemmas
