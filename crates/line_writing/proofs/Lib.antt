pub mod HeadLemmas
pub mod RoundTripLemmas
pub mod RowLemmas
pub mod ShownLemmas
pub mod Values
pub mod WordLemmas
