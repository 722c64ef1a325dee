pub mod Chain
pub mod Composed
pub mod Rests
pub mod Provenance
pub mod Settled
pub mod Inside
