pub mod LineTexts
pub mod Takes
pub mod Keeps
pub mod Runs
pub mod Readings
pub mod Lengths
