pub mod CaseLemmas
pub mod IndexLemmas
pub mod IssueLemmas
pub mod NextLemmas
pub mod PathLemmas
pub mod RestingLemmas
pub mod CursorLemmas
pub mod WhoMayLemmas
