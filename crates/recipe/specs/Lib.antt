pub mod Inside
pub mod Kept
pub mod Lookups
pub mod Reading
pub mod SecondWalk
pub mod Tables
pub mod Text
