pub mod Edges
pub mod Range
pub mod code
