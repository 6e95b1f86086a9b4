pub mod Counting
pub mod Most
pub mod Lowers
pub mod Idle
pub mod Turns
pub mod Offered
