pub mod Brought
pub mod Kept
pub mod Laws
