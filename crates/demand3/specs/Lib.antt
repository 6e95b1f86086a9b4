pub mod Model
pub mod Reading
pub mod Calls
pub mod Accepts
pub mod Demand3
