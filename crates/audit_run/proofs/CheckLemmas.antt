pub mod Others
pub mod Refused
