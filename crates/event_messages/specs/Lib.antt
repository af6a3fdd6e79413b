pub mod Messages
pub mod Reader
