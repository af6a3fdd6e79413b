pub mod PlaceLemmas
pub mod PlainLemmas
