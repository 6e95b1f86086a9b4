pub mod Samples
pub mod Frames
pub mod Range
pub mod code
