pub mod Faults
pub mod Forms
pub mod Heads
pub mod Lines
pub mod Making
pub mod Modes
pub mod Said
