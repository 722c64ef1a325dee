-- Words of the contracts of private functions, and how the prover stores values. No promise depends on them.
pub mod Codes
pub mod Commands
pub mod Replays
