pub mod Rows
pub mod Keying
pub mod Holding
