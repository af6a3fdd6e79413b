pub mod OverLemmas
pub mod BlockLemmas
pub mod ContentsLemmas
pub mod TailLemmas
pub mod StepLemmas
