pub mod Codec
pub mod Cutting
pub mod Fields
pub mod Framing
pub mod Names
pub mod Replies
pub mod Requests
pub mod Views
