pub mod EndLemmas
pub mod LawLemmas
pub mod LineLemmas
pub mod SignLemmas
