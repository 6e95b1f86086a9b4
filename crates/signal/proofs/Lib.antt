pub mod Levels
pub mod Lengths
