pub mod LineTexts
pub mod WordTexts
