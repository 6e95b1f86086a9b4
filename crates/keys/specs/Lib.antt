pub mod Keys
pub mod Range
pub mod code
