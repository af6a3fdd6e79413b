pub mod ChainLemmas
pub mod ConstantLemmas
pub mod LinkLemmas
pub mod PlaceLemmas
pub mod ReachedLemmas
pub mod TimeLemmas
