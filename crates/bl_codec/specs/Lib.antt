pub mod Leaves
pub mod StatementBody
