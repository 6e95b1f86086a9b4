pub mod Put
pub mod Left
pub mod OpeningRule
pub mod Answers
