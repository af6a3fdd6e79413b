pub mod LongLemmas
