pub mod ChainLemmas
pub mod OutboxLemmas
pub mod TableLemmas
pub mod TextsLemmas
pub mod WhoMayLemmas
pub mod WritingLemmas
