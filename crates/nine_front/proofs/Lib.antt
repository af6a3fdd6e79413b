-- of connections and their messages
pub mod AskedLemmas
pub mod CallerLemmas
pub mod ConnectionLemmas
pub mod CutLemmas
pub mod EndsLemmas
pub mod FewLemmas
pub mod HeardLemmas
pub mod LimitLemmas
pub mod PlacedLemmas
pub mod StillLemmas
pub mod MarkLemmas
pub mod MessageEndLemmas
pub mod OneLemmas
pub mod OneEndLemmas
pub mod WordLemmas
-- of requests and their turns
pub mod ReplyLemmas
pub mod ShortLemmas
pub mod StepLemmas
pub mod AnsweredLemmas
pub mod WalkedLemmas
