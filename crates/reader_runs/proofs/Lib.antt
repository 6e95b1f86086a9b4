pub mod Skipping
pub mod Fold
