pub mod Integers
pub mod Places
pub mod Range
pub mod Joining
pub mod Bound
