pub mod Lines
pub mod Rights
pub mod Works
