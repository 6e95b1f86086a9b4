pub mod Timetable
pub mod Tones
pub mod Counting
pub mod Set
pub mod Entry
