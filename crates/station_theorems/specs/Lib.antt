pub mod Output
pub mod Idle
pub mod Ceiling
pub mod Drift
