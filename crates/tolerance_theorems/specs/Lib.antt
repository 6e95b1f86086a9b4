pub mod Edges
pub mod Bursts
pub mod Tolerance
pub mod Station
pub mod Calls
