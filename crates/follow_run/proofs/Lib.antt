pub mod AnsweredLemmas
pub mod BoundLemmas
pub mod EndLemmas
pub mod RunLemmas
pub mod StatusLemmas
pub mod StoreLemmas
