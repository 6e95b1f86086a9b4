pub mod Faults
pub mod Words
pub mod Levels
pub mod Idle
pub mod Ceiling
pub mod Reached
pub mod Drift
