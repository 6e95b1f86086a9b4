pub mod Rules
pub mod Line
pub mod Range
pub mod code
