pub mod IsHexLemmas
pub mod HexLemmas
pub mod LineLemmas
pub mod WordLemmas
