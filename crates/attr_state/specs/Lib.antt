pub mod Index
pub mod State
