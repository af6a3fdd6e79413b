pub mod CuttingLemmas
pub mod FieldLemmas
pub mod MessageLemmas
pub mod NamesLemmas
pub mod ReadingLemmas
pub mod ReplyLemmas
pub mod RequestLemmas
pub mod WritingLemmas
