pub mod Rules
pub mod Begins
pub mod Makes
