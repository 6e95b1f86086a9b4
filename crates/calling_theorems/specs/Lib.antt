pub mod Calls
pub mod Periods
pub mod Pauses
pub mod Choosing
