pub mod EndsWithLemmas
