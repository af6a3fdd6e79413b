pub mod Dates
pub mod IssueBasis
pub mod Lines
pub mod Objects
pub mod Strings
pub mod Words
