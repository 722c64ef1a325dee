mod Chaining
mod Cutting
pub mod Judging
mod Beside
mod PrintedMarks
mod Written
mod Claims
mod Worded
