pub mod MessageLemmas
pub mod MoreLemmas
