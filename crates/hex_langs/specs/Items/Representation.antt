-- How items lie in memory. No promise depends on it.
pub mod Packed
