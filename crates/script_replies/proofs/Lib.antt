pub mod ImageLemmas
pub mod ScriptLemmas
