pub mod Lists
pub mod Tables
pub mod Steps
pub mod code
