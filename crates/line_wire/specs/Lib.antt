pub mod CheckedText
pub mod FaultText
pub mod FirstWord
pub mod GateText
pub mod Guest
pub mod OperationText
pub mod ReplyText
pub mod Unbroken
