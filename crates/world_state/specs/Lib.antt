pub mod Halves
pub mod Made
pub mod Needed
pub mod State
pub mod StateCode
