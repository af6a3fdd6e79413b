pub mod Passes
pub mod Turn
pub mod SessionState
pub mod Tasks
pub mod Placed
pub mod Output
pub mod Laws
