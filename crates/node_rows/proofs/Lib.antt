pub mod NameLengthLemmas
pub mod RowsLemmas
