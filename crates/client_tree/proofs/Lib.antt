pub mod LineLemmas
pub mod RightLemmas
pub mod WorkLemmas
