pub mod PrefixLemmas
pub mod TakingLemmas
pub mod FollowsLemmas
pub mod AnswerLemmas
