-- Definitions for the code that links. No promise depends on it.
pub mod Tables
