pub mod PassLemmas
pub mod OutputLemmas
