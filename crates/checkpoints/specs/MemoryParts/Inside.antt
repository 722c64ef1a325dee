-- Definitions for the proofs. No promise depends on them.
pub mod Zeros
