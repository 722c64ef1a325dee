pub mod Capping
pub mod Pairs
pub mod Splits
