pub mod SendingRule
pub mod Fresh
pub mod Text
pub mod CountingRule
pub mod Range
