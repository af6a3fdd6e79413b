pub mod Answers
pub mod Inquiry
pub mod Laws
pub mod Reading
