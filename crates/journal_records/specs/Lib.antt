pub mod EventReading
pub mod EventRecord
pub mod EventSpelling
pub mod Passes
