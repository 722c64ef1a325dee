-- Definitions for parts of the code. No promise depends on them.
pub mod Meanings
pub mod Capped
