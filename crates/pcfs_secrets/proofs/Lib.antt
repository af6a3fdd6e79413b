pub mod DecideLemmas
pub mod FileLemmas
pub mod LawLemmas
pub mod LineLemmas
pub mod RingLemmas
