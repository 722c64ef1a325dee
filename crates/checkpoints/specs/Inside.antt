-- Definitions for the code and the proofs. No promise depends on them.
pub mod Parts
pub mod Tests
