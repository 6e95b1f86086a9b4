pub mod Outcomes
pub mod Parts
pub mod Range
pub mod Tags
pub mod WordLists
