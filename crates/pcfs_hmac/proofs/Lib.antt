pub mod BlockKeyLemmas
