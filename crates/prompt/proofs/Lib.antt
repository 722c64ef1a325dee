pub mod Lines
pub mod Turning
pub mod InTurns
