pub mod DateLemmas
pub mod NumeralLemmas
pub mod RunLemmas
