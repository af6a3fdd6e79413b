pub mod ClosedLemmas
pub mod PrintableLemmas
pub mod SpellableLemmas
pub mod TokenLemmas
