pub mod Same
pub mod Going
pub mod Reading
pub mod Bound
pub mod Slicing
pub mod Sampling
pub mod Ending
pub mod Measuring
