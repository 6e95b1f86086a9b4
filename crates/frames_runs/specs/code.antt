-- How the code goes about its work; no contract of an entry mentions these.
pub mod Passing
pub mod Walking
