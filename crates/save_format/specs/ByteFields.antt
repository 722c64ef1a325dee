pub mod Reader
pub mod Spelling
pub mod Law
