pub mod Edges
pub mod Reading
pub mod Frames
pub mod Modes
pub mod Choices
pub mod Limits
pub mod Station
pub mod Calls
