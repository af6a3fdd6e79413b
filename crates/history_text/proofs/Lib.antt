pub mod BasisLemmas
pub mod TextLemmas
pub mod WordsLemmas
