pub mod ReadingRule
pub mod Answers
