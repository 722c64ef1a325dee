-- Definitions that serve the split of the code. No promise depends on them.
pub mod Concluding
