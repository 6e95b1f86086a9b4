pub mod Tables
pub mod Lists
pub mod Steps
pub mod Passing
pub mod Searching
pub mod Eights
pub mod Alikes
