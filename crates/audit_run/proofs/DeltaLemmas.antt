pub mod Answered
pub mod Bases
pub mod DeltaLengths
pub mod Exactly
pub mod Judging
pub mod Writing
