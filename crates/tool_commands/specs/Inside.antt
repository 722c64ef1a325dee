-- Definitions that serve the split of the code. No promise depends on them.
pub mod Refusing
pub mod Placing
pub mod Listing
pub mod Words
