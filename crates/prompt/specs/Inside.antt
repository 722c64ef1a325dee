pub mod Host
pub mod Read
pub mod Turns
