pub mod Places
pub mod Ends
pub mod OneMs
pub mod Answers
