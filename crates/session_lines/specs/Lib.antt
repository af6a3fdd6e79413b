pub mod Turns
pub mod Logins
pub mod Replied
pub mod Laws
