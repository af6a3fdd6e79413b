pub mod Bearing
pub mod Gone
pub mod Index
pub mod Rows
pub mod GrantStanding
