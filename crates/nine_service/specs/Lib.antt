pub mod Passes
pub mod Conversation
pub mod Outputs
pub mod Laws
