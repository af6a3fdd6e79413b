pub mod CommandWords
pub mod Commands
pub mod Tasks
pub mod Laws
