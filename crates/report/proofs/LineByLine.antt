pub mod Turns
pub mod Rules
pub mod Faults
pub mod Readings
