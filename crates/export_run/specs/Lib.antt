pub mod Exported
pub mod Outgoing
