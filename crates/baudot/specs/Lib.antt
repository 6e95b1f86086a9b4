pub mod Sending
pub mod Text
pub mod Reading
pub mod Counting
pub mod Entries
pub mod code
