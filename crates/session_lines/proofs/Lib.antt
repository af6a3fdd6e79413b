pub mod TurnCountLemmas
pub mod ReplyLemmas
pub mod DoneLemmas
pub mod TaskLemmas
pub mod ToldLemmas
