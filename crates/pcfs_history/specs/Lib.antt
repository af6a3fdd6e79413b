pub mod Chain
pub mod Outbox
pub mod Written
