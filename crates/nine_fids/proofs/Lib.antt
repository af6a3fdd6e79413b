pub mod ControlLemmas
pub mod FidLemmas
pub mod LawLemmas
pub mod NonceLemmas
pub mod TakingLemmas
