pub mod FrontLemmas
pub mod SessionLemmas
