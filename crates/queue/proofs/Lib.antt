pub mod Waiters
pub mod Laws
pub mod Moves
pub mod Ranges
