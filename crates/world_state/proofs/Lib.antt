pub mod HalvesLemmas
pub mod MadeLemmas
