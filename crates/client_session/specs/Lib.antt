pub mod Greetings
pub mod Lines
