-- How the code's values are seen, for the proofs. No promise depends on it.
pub mod Views
