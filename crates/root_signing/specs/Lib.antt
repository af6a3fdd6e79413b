pub mod Laws
pub mod Reading
pub mod Signed
pub mod SigningLines
