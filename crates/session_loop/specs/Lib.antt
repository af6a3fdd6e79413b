pub mod Cutting
pub mod Ends
pub mod Heard
pub mod Spoken
pub mod Taken
pub mod TalkEnds
pub mod Talking
pub mod Written
