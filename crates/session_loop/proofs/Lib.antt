pub mod CutLemmas
pub mod EndLemmas
pub mod PieceLemmas
pub mod PortLemmas
pub mod SpokenLemmas
pub mod StillLemmas
pub mod WrittenLemmas
