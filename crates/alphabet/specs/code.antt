-- How the code goes about its work; no contract of an entry mentions these.
pub mod Numbers
pub mod Packing
