pub mod Definitions
pub mod Expansion
pub mod Laws
pub mod Refusals
pub mod Representation
pub mod Words
