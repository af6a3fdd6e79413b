pub mod Classes
pub mod Dates
pub mod Numerals
pub mod Ranges
pub mod Times
pub mod Tokens
pub mod Words
