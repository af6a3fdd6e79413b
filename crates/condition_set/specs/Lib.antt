pub mod Conditions
pub mod FailsFirst
pub mod Window
