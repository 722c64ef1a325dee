pub mod Tokens
pub mod Words
pub mod Labels
pub mod Reading
pub mod Refusals
pub mod Plain
pub mod Representation
