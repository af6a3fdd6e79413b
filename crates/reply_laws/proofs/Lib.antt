pub mod AnswerLemmas
pub mod FaultLemmas
pub mod GrammarLemmas
pub mod InstanceLemmas
pub mod KeptLemmas
pub mod LineLemmas
pub mod VerdictLemmas
pub mod WorldLemmas
