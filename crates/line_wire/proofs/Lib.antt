pub mod FirstWordLemmas
pub mod GuestLemmas
pub mod HexTextLemmas
pub mod LinesLemmas
pub mod UnbrokenLemmas
