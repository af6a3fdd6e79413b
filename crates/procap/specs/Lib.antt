pub mod Genuine
pub mod GrantReading
pub mod GrantSpelling
pub mod Procap
