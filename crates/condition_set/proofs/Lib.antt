pub mod FirstFailingLemmas
pub mod WindowLemmas
