pub mod GivenLemmas
pub mod OnceLemmas
pub mod TaskLemmas
