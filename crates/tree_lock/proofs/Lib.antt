pub mod EntryLemmas
pub mod SeatLemmas
pub mod SeenLemmas
pub mod StepLemmas
pub mod TurnLemmas
pub mod NumberLemmas
pub mod DoorLemmas
pub mod MergeLemmas
