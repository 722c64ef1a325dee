-- No promise depends on these definitions.
pub mod Going
pub mod Kept
pub mod Words
