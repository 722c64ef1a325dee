pub mod Loop
pub mod Encodes
pub mod Kept
pub mod Law
