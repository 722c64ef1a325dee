pub mod Codes
pub mod Saying
