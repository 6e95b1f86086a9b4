pub mod Answers
pub mod Listening
pub mod Waiting
