mod Written
pub mod Loading
pub mod Worded
