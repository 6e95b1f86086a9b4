pub mod Station
pub mod Measured
pub mod Range
pub mod Listening
pub mod Entries
pub mod code
