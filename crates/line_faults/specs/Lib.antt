pub mod LongLines
pub mod Reports
