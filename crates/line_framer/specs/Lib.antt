pub mod Feeding
pub mod Framing
pub mod Scanning
