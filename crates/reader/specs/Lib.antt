pub mod Reader
pub mod Words
pub mod Range
pub mod code
