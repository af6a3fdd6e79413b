pub mod HexWord
pub mod Greeting
pub mod Lines
pub mod Words
