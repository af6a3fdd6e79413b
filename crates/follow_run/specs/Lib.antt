pub mod AnswerText
pub mod DamageNumber
pub mod FollowRun
pub mod Followed
pub mod Taken
