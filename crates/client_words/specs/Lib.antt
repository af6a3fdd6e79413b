pub mod Places
pub mod PlainLetters
pub mod StatementNumbers
