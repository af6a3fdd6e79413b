pub mod Index
pub mod RowTests
pub mod State
