pub mod Chain
pub mod ImageReading
pub mod ImageSpelling
pub mod NodeReading
pub mod NodeSpelling
pub mod WithdrawnNumbers
