pub mod AnswersLemmas
pub mod AskedLemmas
pub mod CitedLemmas
