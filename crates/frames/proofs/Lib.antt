pub mod Sampling
pub mod Range
