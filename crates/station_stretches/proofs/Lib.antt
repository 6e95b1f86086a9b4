pub mod Laws
pub mod Joining
pub mod Idle
