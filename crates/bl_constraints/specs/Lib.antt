pub mod Search
pub mod Sources
